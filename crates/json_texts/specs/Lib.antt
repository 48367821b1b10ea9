pub mod ReportValue
pub mod FoundValue
pub mod FunctionMembers
pub mod AuditValue
pub mod WhyValue
