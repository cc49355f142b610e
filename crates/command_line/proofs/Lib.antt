pub mod CommandLemmas
mod GivenLemmas
mod Singles
pub mod WordLemmas
