pub mod Expected
pub mod Lines
pub mod Machine
pub mod Products
pub mod Run
pub mod Steps
pub mod Stops
pub mod Told
