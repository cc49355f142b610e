pub mod Cache
pub use Rattle.query_normal.specs.Keys
