pub mod CopyLemmas
pub mod HeldLemmas
pub mod IssueLemmas
pub mod KeepLemmas
pub mod LawLemmas
pub mod MaximaLemmas
pub mod ViewLemmas
