pub mod Kinds
pub mod Resets
pub mod Slots
pub mod Parts
pub mod Hits
pub mod Extents
