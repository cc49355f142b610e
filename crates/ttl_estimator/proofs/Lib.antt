pub mod CallLemmas
pub mod EntryLemmas
pub mod EstimateLemmas
pub mod HistoryLemmas
pub mod PlaceLemmas
pub mod RateLemmas
mod StandardFacts
