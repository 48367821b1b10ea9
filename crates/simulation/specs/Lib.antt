pub mod Faults
pub mod Demo
pub mod Listing
pub mod Checking
pub mod Running
pub mod Serving
pub mod Choices
