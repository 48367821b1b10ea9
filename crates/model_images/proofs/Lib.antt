pub mod Loading
mod BesideLoads
pub mod Requests
mod FixedBits
mod Settling
mod Runs
pub mod Steps
pub mod KeptFunctions
pub mod Fitting
pub mod Counts
mod ImageExamples
pub mod Options
pub mod Numbers
pub mod Layouts
pub mod ImageLayouts
pub mod ImageBytes
pub mod BlockCounts
pub mod Savable
pub mod LoadedBytes
pub mod TakenBytes
mod Stops
mod ByteCells
pub mod SavedWorlds
mod ByteExamples
