pub mod Blocks
pub mod Sealed
pub mod Characteristic
pub mod Draft
