pub mod Chain
pub mod DoorLemmas
mod Given
mod Pieces
