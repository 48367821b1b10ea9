pub mod Words
pub mod Choices
