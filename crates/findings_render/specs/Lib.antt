pub mod Lines
pub mod WhyLines
