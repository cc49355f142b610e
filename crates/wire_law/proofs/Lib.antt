mod FieldLemmas
mod LineLemmas
mod PartLemmas
mod ReplyLemmas
mod SizeLemmas
mod ToldLemmas
mod ValueLemmas
