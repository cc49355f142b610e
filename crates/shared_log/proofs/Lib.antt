pub mod CrashLemmas
pub mod CrossingLemmas
pub mod NoteLemmas
pub mod SeatLemmas
pub mod StandLemmas
