pub mod Answers
pub mod List
pub mod Rows
pub mod Tray
