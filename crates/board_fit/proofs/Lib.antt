pub mod BridgesAbove
pub mod NamedReasons
pub mod PathSets
