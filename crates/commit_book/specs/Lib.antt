pub mod BookRefusal
pub mod CommitRows
pub mod Contents
pub mod Documents
pub mod Index
pub mod Journal
pub mod Names
pub mod Same
