pub mod Merge
pub mod Merged
pub mod Rows
