pub mod SameLemmas
mod SizeLemmas
mod StandardFacts
