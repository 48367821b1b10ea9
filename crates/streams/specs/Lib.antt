pub mod Ends
pub mod Keeping
pub mod Kept
