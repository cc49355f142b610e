pub mod EndLemmas
pub mod ItemLemmas
pub mod ProgressLemmas
pub mod RoundLemmas
pub mod VisitLemmas
