pub mod Listed
pub mod Claim
pub mod Wrong
pub mod Bench
