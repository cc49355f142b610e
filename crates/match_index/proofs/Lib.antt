pub mod CandidateLemmas
pub mod FoundLemmas
pub mod PlaceLemmas
mod StandardFacts
