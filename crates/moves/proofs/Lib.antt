pub mod BeforeLaws
pub mod MotionLaws
pub mod Before
pub mod Stated
