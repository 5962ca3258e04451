-- The records of a dry run, by rank.
pub mod Recorded
pub mod Ranked
