pub mod Presses
pub mod Which
pub mod Acts
pub mod Bridge
