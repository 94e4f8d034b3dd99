pub mod Exchanges
pub mod Running
pub mod Seen
pub mod Hosted
pub mod Demands
