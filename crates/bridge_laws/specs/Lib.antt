pub mod Accepts
pub mod RoundTrip
pub mod Assembled
pub mod Padding
pub mod Connected
pub mod Replay
pub mod Builds
