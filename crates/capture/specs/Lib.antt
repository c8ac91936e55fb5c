pub mod Ahead
pub mod Capture
pub mod Agreement
pub mod Entry
pub mod Answer
pub mod Reading
pub mod Looking
