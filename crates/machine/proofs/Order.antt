-- Claim 4: the order among equal waits.
pub mod Losers
pub mod Serials
pub mod Records
pub mod Weights
pub mod Steps
pub mod OpenWaits
pub mod OpenPairs
pub mod Rivals
pub mod Taken
pub mod OrderKept
pub mod InOrder
