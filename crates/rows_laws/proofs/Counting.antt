pub mod Occurs
pub mod Sums
pub mod LooseRows
pub mod Population
