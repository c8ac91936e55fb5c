pub mod Cutting
pub mod Assembler
pub mod Delivery
