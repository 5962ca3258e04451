pub mod WalkSteps
pub mod Spot
pub mod Put
pub mod LineUp
pub mod FirstThatPasses
