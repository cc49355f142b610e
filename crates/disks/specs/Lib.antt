pub mod Calls
pub mod Devices
pub mod Histories
pub mod MemoryDisks
pub mod Moments
pub mod Ranges
