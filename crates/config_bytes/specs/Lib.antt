pub mod CellFile
pub mod OffsetLaws
pub mod Ops
