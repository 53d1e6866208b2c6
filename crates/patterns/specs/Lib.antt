pub mod Check
pub mod Forks
pub mod Masks
pub mod Pattern
pub mod Reach
pub mod Reading
pub mod Rows
pub mod Shape
