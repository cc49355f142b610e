pub mod PageRefusal
pub mod PageText
pub mod Reading
pub mod Sight
pub use Rattle.q_base.specs.Positions
pub use Rattle.query_normal.specs.Bits
pub use Rattle.query_normal.specs.Keys
pub use Rattle.query_normal.specs.Pages
