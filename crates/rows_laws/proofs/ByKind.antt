pub mod Families
pub mod Interruption
