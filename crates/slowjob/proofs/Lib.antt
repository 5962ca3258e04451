pub mod Recurrence
pub mod Events
pub mod Line
pub mod ClockMove
pub mod Steps
pub mod Turns
pub mod SlowJob
pub mod Examples
