pub mod Ascii
pub mod Handing
pub mod Text
