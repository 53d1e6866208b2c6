pub mod Chain_laws
pub mod Counting
pub mod Edges
pub mod Trials
