pub mod ByteLemmas
pub mod ReadLemmas
pub mod EncodingLemmas
pub mod StandardFacts
pub mod WriteLemmas
pub mod MarkLemmas
