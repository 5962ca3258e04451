-- Lists, tables and ranks, of no state.
pub mod Members
pub mod Tables
pub mod Ranks
