pub mod Array
pub mod Bound
pub mod Lines
pub mod Moves
pub mod Step
pub mod Successors
