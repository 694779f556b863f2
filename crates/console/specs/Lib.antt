pub mod Words
pub mod Numbers
pub mod Chosen
pub mod Names
pub mod Grammar
pub mod Texts
pub mod ChosenRanges
