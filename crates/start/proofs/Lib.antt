pub mod AtStart
pub mod BlockSteps
pub mod Laws
pub mod Tally
pub mod Stated
