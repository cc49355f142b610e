pub mod Dialogue
pub mod EndLaw
pub mod Round
pub mod Visit
