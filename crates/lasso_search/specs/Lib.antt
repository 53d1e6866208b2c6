pub mod Graph
pub mod Product
pub mod Search
pub mod Shades
pub mod Steps
pub mod Walks
pub mod Width
