mod ChosenCuts
mod DigitSteps
mod Fronts
mod Parted
pub mod Spelling
pub mod Taking
