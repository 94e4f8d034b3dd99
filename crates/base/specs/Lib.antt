pub mod Choice
pub mod Range
pub mod First
pub mod Keyed
pub mod Words
pub mod Tail
pub mod Same
pub mod Filled
