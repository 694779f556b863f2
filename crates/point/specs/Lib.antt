pub mod Values
pub mod Controls
pub mod Settings
pub mod Levels
pub mod Trials
pub mod Ends
pub mod Phases
pub mod Bounds
