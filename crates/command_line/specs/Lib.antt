pub mod Commands
pub mod Data
pub mod Help
pub mod Watching
pub mod Words
