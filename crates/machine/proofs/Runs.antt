-- What every state of a run keeps, for the claims.
pub mod RunLaws
pub mod Kept
pub mod Bounds
pub mod Prefix
pub mod Shape
pub mod OutcomeLaws
pub mod Everybody
pub mod Placed
pub mod Clocks
pub mod ClockTerm
pub mod RecordRoom
pub mod Ahead
