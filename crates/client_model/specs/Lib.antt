pub mod Issued
pub use Rattle.hub_model.specs.Journal
pub use Rattle.hub_model.specs.Legal
pub use Rattle.hub_model.specs.Record
pub use Rattle.hub_model.specs.Setting
pub use Rattle.hub_model.specs.State
pub use Rattle.hub_model.specs.Step
pub use Rattle.hub_model.specs.Desk
