pub mod LogValues
pub mod Notes
pub mod Shared
pub use Rattle.record_log.specs.Frames
pub use Rattle.record_log.specs.Images
pub use Rattle.record_log.specs.Logs
pub use Rattle.turnstile.specs.Seats
