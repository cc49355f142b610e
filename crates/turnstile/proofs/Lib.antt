pub mod Prefixes
pub mod PlaceLemmas
pub mod Totals
pub mod Lineages
pub mod Outs
pub mod Steps
pub mod Takes
pub mod Closes
