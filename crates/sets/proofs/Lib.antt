pub mod Lowest
pub mod Members
pub mod Size
pub mod Subsets
pub mod Walk
