mod Examples
pub mod Mixing
pub mod Linear
pub mod Bytes
pub mod Box
pub mod Cells
pub mod Columns
pub mod Filled
pub mod Turns
pub mod Elements
pub mod Cipher
pub mod Undoing
pub mod Inverse
pub mod KeyStream
pub mod Loops
