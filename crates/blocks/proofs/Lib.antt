pub mod ExecuteLaws
pub mod Stated
