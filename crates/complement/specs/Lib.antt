pub mod Build
pub mod Complement
pub mod Flags
pub mod Found
pub mod Records
