pub mod Saved
pub mod Refusal
