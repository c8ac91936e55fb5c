mod Examples
pub mod Judging
pub mod Opening
pub mod Commands
pub mod Contents
pub mod Builds
