pub mod PoolFits
pub mod Warnings
pub mod PathSets
pub mod Misfits
pub mod Remarks
pub mod PlacedRemarks
pub mod Verdicts
pub mod ReasonLaws
