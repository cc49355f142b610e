pub mod EmptyLineLemmas
pub mod BodyLemmas
mod ChunkLemmas
mod CodingFacts
mod CodingLemmas
mod FieldLemmas
pub mod FramingLemmas
pub mod BeginningLemmas
mod HeadLemmas
mod InputLemmas
mod ItemLemmas
mod LineLemmas
pub mod LookLemmas
mod OptionLemmas
mod PartLemmas
pub mod ScanLemmas
pub mod SplitLemmas
mod StandardFacts
mod StepLemmas
mod TakenLemmas
