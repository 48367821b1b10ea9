pub mod NoFloatsInReports
pub mod RowValues
pub mod BoardValue
pub mod RowsOfJson
pub mod NoFloatsInAudits
pub mod NoFloatsInWhy
