pub mod Copies
pub mod HandedOn
pub mod CopiedFiles
pub mod HeldCopies
pub mod ResetCopies
