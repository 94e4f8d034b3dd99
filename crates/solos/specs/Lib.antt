pub mod Peers
pub mod Turns
