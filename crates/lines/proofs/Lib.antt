pub mod Counts
pub mod Cursors
pub mod Digits
pub mod GuestForms
pub mod GuestNames
mod HexDigits
mod LineEnds
pub mod NameLemmas
pub mod Splitting
pub mod Tables
pub mod RequestCounts
pub mod WriteCounts
pub mod WriteForms
pub mod Buffers
pub mod Endings
pub mod EndsInPieces
pub mod LongLines
pub mod Reaching
pub mod Results
pub mod Parts
mod Watched
