pub mod Session
pub mod WellLists
