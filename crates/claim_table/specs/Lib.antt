pub mod Tables
pub mod Entries
pub mod Fitting
