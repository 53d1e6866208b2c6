pub mod Decision
pub mod Refusals
