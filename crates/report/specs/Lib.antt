pub mod Rounding
pub mod Estimates
pub mod Decimals
pub mod History
pub mod Outcomes
pub mod Hex
