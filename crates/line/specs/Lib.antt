pub mod Receive
pub mod Line
pub mod Feed
pub mod Moves
pub mod Places
pub mod Escapes
