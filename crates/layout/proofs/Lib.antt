pub mod Operands
pub mod BlockKinds
