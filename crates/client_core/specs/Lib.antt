pub mod Choice
pub mod Floor
pub mod Table
pub use Rattle.flat_snapshot.specs.Sight
