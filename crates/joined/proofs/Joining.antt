-- The joined model and tape: they are accepted, both parts stand inside, and the starts are related.
pub mod Start
pub mod Numbering
pub mod BothParts
pub mod Formed
pub mod ProperJoined
pub mod JointStart
pub mod Named
