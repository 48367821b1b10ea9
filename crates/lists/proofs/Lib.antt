pub mod Tests
pub mod EachLemmas
pub mod Members
pub mod Indices
pub mod FirstFound
