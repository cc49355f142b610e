pub mod Due
pub mod Entries
pub mod Lends
pub mod Map
pub use Rattle.query_normal.specs.Keys
