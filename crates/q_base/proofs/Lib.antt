pub mod PositionLemmas
pub mod StandardFacts
