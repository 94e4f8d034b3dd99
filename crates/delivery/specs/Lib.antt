pub mod Refusals
pub mod Delivery
