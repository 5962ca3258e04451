-- Claims of document 02: families, joined waits, holders; and that what was accepted before keeps its run.
pub mod Gathering
pub mod Families
pub mod SameTurns
pub mod LaterClock
pub mod OlderTapes
pub mod Holders
pub mod OlderModels
pub mod OnlyHolder
pub mod JoinedWaits
