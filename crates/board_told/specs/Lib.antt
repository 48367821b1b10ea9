pub mod Faults
pub mod Listing
pub mod Checking
pub mod GuestFindings
pub mod GuestLines
pub mod Alone
pub mod WhyJson
