pub mod LooseRowsStay
pub mod Making
pub mod NewTransaction
pub mod Start
