pub mod Counts
pub mod Events
pub mod Filter
pub mod Held
pub use Rattle.expiring_map.specs.Entries
pub use Rattle.query_normal.specs.Bits
pub use Rattle.query_normal.specs.Keys
pub use Rattle.query_normal.specs.Pages
