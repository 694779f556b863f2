pub mod TallySteps
pub mod EndsFirst
mod RunSteps
pub mod RunsOn
pub mod SmallerErrors
pub mod Foresight
pub mod SettlesFirst
