pub mod Files
pub mod DistinctOffsets
pub mod Units
pub mod BaseRegisters
pub mod OwnRegisters
