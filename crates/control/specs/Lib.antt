pub mod Command
pub mod Table
pub mod Control
pub mod Accepts
