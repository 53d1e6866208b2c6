pub mod First
pub mod Laid
pub mod Trials
pub mod Words
