pub mod Message
pub mod Table
pub mod Reading
pub mod Holds
pub mod Accepts
