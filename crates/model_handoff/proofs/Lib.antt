pub mod Functions
pub mod Agreement
pub mod Shapes
pub mod Keeping
pub mod First
pub mod Standing
pub mod Regions
pub mod Accesses
pub mod Served
pub mod SetUpCase
pub mod SetUpLaws
pub mod AfterSetUp
pub mod ReportLaws
pub mod BoardReport
pub mod Examples
pub mod Kept
pub mod Views
pub mod Alike
pub mod ResetCase
pub mod DevicesOver
pub mod Landings
pub mod Inside
mod RegionBytes
pub mod Staying
mod FunctionSeats
mod FunctionExamples
pub mod OneReset
pub mod GivenSeats
pub mod Giving
pub mod Actions
pub mod Counting
pub mod Aside
pub mod LawfulWorlds
pub mod Unasked
