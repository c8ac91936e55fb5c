pub mod Bytes
pub mod Envelopes
pub mod Misfit
pub mod Sealers
pub mod Drafted
pub mod Unsealed
