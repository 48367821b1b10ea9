pub mod HostState
pub mod Landings
pub mod Targets
pub mod ByIndex
