pub mod Gather
pub mod Lookup
pub mod Rows
pub mod View
