pub mod Moment
pub mod Name
pub mod NameRefusal
pub mod Positions
