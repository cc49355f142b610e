pub mod ListPlaces
pub mod Places
pub mod Reading
pub mod Run
pub mod Serving
pub mod Status
