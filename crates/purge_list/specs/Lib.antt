pub mod LastChanges
pub mod Purged
