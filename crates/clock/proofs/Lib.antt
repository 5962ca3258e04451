pub mod Steps
pub mod SampleLaws
pub mod Population
pub mod ReadyLaws
pub mod ClockLaws
pub mod TakingLaws
pub mod Stated
