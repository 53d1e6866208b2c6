pub mod Answers
pub mod Bytes
pub mod Reading
pub mod Refusals
pub mod Rows
pub mod Walking
