pub mod Tables
pub mod Offsets
pub mod Shifts
pub mod Outside
pub mod Values
