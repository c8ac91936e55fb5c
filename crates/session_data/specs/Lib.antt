pub mod SessionData
pub mod RoundTrip
