pub mod Linear
pub mod TableRule
pub mod Loop
