pub mod Items
pub mod InOrder
pub mod Confirmed
pub mod LongerWays
pub mod LaterLines
pub mod MarkTexts
