pub mod Across
pub mod Calls
pub mod Images
pub mod Journals
pub mod KeptHub
pub mod Moments
pub mod Opened
pub mod Replay
