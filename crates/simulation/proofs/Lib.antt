mod FaultNumbers
mod Begun
mod Scripts
mod Served
pub mod Ran
pub mod Told
