pub mod Reading
pub mod Accepts
pub mod Meaning
pub mod Never
pub mod Nonce
