pub mod Chains
pub mod AllLines
