pub mod Firsts
pub mod Indexed
pub mod Laying
pub mod Linking
pub mod Meaning
pub mod Rising
pub mod Valid
pub mod Words
