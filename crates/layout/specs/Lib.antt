pub mod Chained
pub mod Orderly
pub mod Steps
pub mod Triples
