pub mod Answers
pub mod Runs
pub mod Judged
pub mod Examples
pub mod Laws
pub mod Audits
pub mod Journals
