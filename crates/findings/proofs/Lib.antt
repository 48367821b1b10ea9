pub mod Least
pub mod Numbers
pub mod Walk
pub mod Sorts
pub mod Blames
pub mod Above
pub mod PrefetchedAddresses
pub mod Indexed
pub mod StoppedFrom
pub mod WhyRows
pub mod HeldRegions
pub mod BridgesOnWay
pub mod AddressBuses
mod Decimals
