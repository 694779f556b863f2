pub mod Bytes
pub mod Places
pub mod Formats
pub mod Journals
