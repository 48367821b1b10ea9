pub mod LineNumbers
pub mod Ways
pub mod Marks
pub mod Shapes
pub mod Places
pub mod EntryPlaces
