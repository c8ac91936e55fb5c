pub mod Escape
pub mod Examples
