mod CommitLemmas
mod ContentsLemmas
mod DocumentLemmas
mod DropLemmas
pub mod GrowLemmas
mod IndexLemmas
mod KeptDocuments
mod KeptLemmas
mod LookLemmas
mod NameLemmas
mod NewestLemmas
mod OrderLemmas
mod PlaceLemmas
mod SpaceLemmas
mod SameLemmas
mod StandardFacts
mod StepLemmas
pub mod VersionLemmas
