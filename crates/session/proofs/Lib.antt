pub mod Declared
pub mod Handed
pub mod Refusals
pub mod Reports
pub mod Stages
