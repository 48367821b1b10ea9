pub mod Faults
pub mod Values
pub mod Rows
pub mod Decodes
pub mod BridgeDecls
pub mod WindowPairs
pub mod Places
