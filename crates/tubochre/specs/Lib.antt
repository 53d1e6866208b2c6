pub mod Calls
pub mod Demand
pub mod Demands
pub mod Merging
pub mod Trying
