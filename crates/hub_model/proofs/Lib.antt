mod Accepted
pub mod Bits
pub mod Changes
mod Copies
pub mod Covered
pub mod Issues
mod Histories
pub mod Kept
pub mod KeySets
pub mod Known
mod LaterStates
mod Moves
mod CopiesOfReads
pub mod Purged
pub mod Queries
pub mod Recorded
pub mod Results
mod Rows
pub mod Untils
mod Unmatched
mod WorkedDrops
mod WorkedTtls
