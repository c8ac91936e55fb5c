pub mod Cutting
pub mod Putting
pub mod OnePart
pub mod Delivery
pub mod Examples
