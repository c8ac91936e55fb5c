pub mod Escapes
pub mod Moves
pub mod Gives
pub mod Run
pub mod Feeding
pub mod Delivery
pub mod Places
pub mod Examples
