pub mod Places
pub mod Levels
pub mod Views
pub mod Rule
pub mod Plays
pub mod Seats
pub mod Turns
pub mod Closing
