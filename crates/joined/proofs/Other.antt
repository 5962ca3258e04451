-- One block of the other part: the relation stays as it is.
pub mod Steps
pub mod Effect
pub mod Strangers
