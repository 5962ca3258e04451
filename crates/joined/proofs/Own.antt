-- One block of the part, in the joined state and in its own: the relation is kept.
pub mod Moves
pub mod Steps
pub mod Makes
pub mod Assemble
pub mod Preempt
pub mod Terms
pub mod Inside
pub mod Parting
pub mod Effect
