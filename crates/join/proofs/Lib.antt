pub mod Copies
pub mod Forming
pub mod Outputs
pub mod Pairing
