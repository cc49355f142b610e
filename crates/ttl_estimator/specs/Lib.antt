pub mod Calls
pub mod Estimates
pub mod Estimator
pub mod History
pub mod Lifetime
pub mod Rates
pub mod Records
