pub mod Left
pub mod Outlasts
