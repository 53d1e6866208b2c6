pub mod Digits
pub mod Placing
pub mod Rereading
pub mod Scanning
