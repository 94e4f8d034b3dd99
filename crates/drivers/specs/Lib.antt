pub mod Kinds
pub mod Answers
pub mod Talk
pub mod Shown
pub mod Bytes
pub mod Paired
pub mod CallKinds
