pub mod Running
pub mod Shown
pub mod Hosted
pub mod Demands
