pub mod Automaton
pub mod Decision
pub mod Lasso
pub mod System
pub mod Union
