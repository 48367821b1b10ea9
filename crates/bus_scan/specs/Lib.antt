pub mod Faults
pub mod Rows
pub mod Scans
pub mod Sights
pub mod Probes
pub mod SizedRows
pub mod SizedTables
