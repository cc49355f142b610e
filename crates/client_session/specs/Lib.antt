pub mod Link
pub mod ListLink
pub mod Noted
pub mod Read
pub mod Session
pub use Rattle.client_core.specs.Choice
pub use Rattle.client_core.specs.Floor
pub use Rattle.client_model.specs.Issued
