pub mod Faults
pub mod Parts
pub mod Puts
pub mod Shown
