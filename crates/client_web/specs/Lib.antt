pub mod Answer
pub mod Choice
pub mod State
