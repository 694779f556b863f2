pub mod Verbs
pub mod Lines
pub mod Replies
