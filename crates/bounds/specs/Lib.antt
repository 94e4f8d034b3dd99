pub mod Bounds
pub mod Drivers
pub mod Longer
pub mod Well
pub mod Room
