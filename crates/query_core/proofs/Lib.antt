pub mod CandidateLemmas
pub mod ChangeLemmas
pub mod FilterLemmas
pub mod Firsts
pub mod Rising
pub mod RowOrder
mod StandardFacts
pub mod WindowLemmas
