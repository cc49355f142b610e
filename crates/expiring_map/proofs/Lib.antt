pub mod HeldLemmas
pub mod KeyLemmas
