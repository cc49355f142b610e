pub mod Chain
pub mod Draws
pub mod KeptLemmas
