pub mod Legality
mod Codings
