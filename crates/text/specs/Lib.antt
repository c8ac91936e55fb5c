pub mod Puts
pub mod Digits
pub mod Reading
pub mod Ascii
