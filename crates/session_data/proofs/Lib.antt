pub mod Judging
pub mod Trip
