pub mod Account
pub mod Plain
pub mod Starred
