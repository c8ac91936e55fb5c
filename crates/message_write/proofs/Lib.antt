pub mod Refusing
pub mod Trip
