pub mod Counting
pub mod Examples
pub mod Parts
pub mod Stored
pub mod Worth
