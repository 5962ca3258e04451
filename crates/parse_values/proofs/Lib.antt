pub mod Binds
pub mod Tags
pub mod Steps
pub mod Filled
pub mod Cells
pub mod Named
