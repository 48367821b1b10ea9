pub mod Paths
pub mod OnBus
