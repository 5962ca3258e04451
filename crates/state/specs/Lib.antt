pub mod Ticks
pub mod Statistics
pub mod Bare
pub mod ScalarSetters
pub mod Stands
pub mod All
pub mod Notes
