pub mod Following
pub mod Queries
pub use Rattle.match_sets.specs.Contents
pub use Rattle.query_normal.specs.Keys
