pub mod Contents
pub mod Follow
pub mod Rows
pub mod Told
pub mod Windows
