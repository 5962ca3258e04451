pub mod Generator
pub mod Modular
pub mod Starts
