pub mod ConfigCycles
pub mod Lent
pub mod ClaimedAccesses
pub mod ByIndex
pub mod PortAccesses
pub mod ByPath
