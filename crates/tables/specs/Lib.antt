pub mod Access
pub mod Made
pub mod Marks
pub mod Rows
pub mod Table
