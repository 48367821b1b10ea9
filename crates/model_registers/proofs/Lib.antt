pub mod RegisterFiles
pub mod ByteAccesses
pub mod Files
pub mod RegisterOrder
pub mod LawfulDeclarations
pub mod Parts
pub mod EnabledBytes
pub mod Bases
pub mod Hits
pub mod HitRegions
pub mod Sizes
pub mod Owned
pub mod BareRegions
pub mod DeviceBytes
pub mod Capabilities
pub mod ConstantCells
pub mod ListedCapabilities
mod NoLists
