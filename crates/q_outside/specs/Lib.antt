pub mod Buffered
pub mod Clocks
pub mod Doors
pub mod Ends
pub mod Scripts
