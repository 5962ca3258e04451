pub mod Answers
pub mod Fields
pub mod Groups
pub mod Numbers
pub mod Steps
pub mod Stores
pub mod Writing
