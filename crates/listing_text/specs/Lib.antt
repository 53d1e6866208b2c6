pub mod Built
pub mod Listing
pub mod Output
pub mod Trials
