-- Claim 3: nobody able to go waits.
pub mod Waiting
pub mod Named
pub mod Ready
pub mod Queued
pub mod QueueRemove
pub mod Gated
pub mod WaitsBlocks
pub mod WaitsKept
pub mod StillWaiting
pub mod NobodyAble
