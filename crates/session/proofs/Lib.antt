pub mod Validity
pub mod Remembered
pub mod Kept
