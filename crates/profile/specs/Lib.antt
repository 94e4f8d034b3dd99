pub mod Profile
pub mod Order
pub mod Limits
pub mod Refusal
