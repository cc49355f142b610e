pub mod EntryLemmas
mod FollowLemmas
mod IndexedLemmas
pub mod LiftLemmas
mod ListedLemmas
mod RowLemmas
