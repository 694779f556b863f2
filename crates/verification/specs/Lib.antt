pub mod Orders
pub mod Standings
pub mod Ordering
pub mod Manual
pub mod Records
pub mod Calls
pub mod Certificates
