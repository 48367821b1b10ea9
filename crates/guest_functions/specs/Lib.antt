pub mod Words
pub mod CopyLaws
