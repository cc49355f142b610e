pub mod Copies
pub mod Entries
pub mod Events
pub mod Expiries
pub mod KeyCopies
pub mod Maxima
pub use Rattle.query_normal.specs.Keys
