pub mod Declined
pub mod Sums
pub mod Verdicts
