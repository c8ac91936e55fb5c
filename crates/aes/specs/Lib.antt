pub mod Field
pub mod Box
pub mod Boxes
pub mod Cipher
pub mod Packed
pub mod InvCipher
pub mod Inverse
pub mod Ctr
