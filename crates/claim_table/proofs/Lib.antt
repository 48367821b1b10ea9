pub mod Searching
pub mod Sorting
pub mod Listing
pub mod Answering
pub mod Gathering
pub mod Readies
