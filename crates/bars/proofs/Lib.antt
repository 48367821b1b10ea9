pub mod Powers
pub mod Regions
pub mod Splits
pub mod Decodes
pub mod Masks
pub mod Passed
