pub mod LineLemmas
pub mod MachineLemmas
pub mod RunLemmas
