pub mod Rounding
pub mod Values
pub mod Whole
pub mod Checked
pub mod Lines
