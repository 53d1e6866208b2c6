mod Printing
mod Sources
pub mod Trials
pub mod Whole
