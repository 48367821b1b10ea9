pub mod PathTexts
pub mod RowTexts
mod Boards
