pub mod ComparisonLaws
pub mod Operands
pub mod Parameters
pub mod QueueLaws
pub mod SchemeLaws
pub mod Sees
pub mod Sharing
pub mod Stated
