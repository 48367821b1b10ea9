pub mod Accesses
pub mod Refusals
pub mod Replies
