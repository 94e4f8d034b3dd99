pub mod Note
pub mod Panel
