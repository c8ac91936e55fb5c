pub mod Reply
pub mod Place
pub mod Content
pub mod Opener
pub mod Characteristic
pub mod Opening
