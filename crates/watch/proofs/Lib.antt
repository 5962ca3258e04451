pub mod Steps
pub mod Walking
pub mod Marking
pub mod Loops
pub mod Reaching
pub mod Watching
