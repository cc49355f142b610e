mod BeginLemmas
mod DocumentLemmas
mod FieldLemmas
mod GivenLemmas
mod HeadReading
mod RowLemmas
mod RowReading
mod StandardFacts
pub mod TextLemmas
mod WindowLemmas
