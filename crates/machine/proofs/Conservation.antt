-- Claims 1 and 2: one list for each living transaction; made = ended + living.
pub mod Balance
pub mod Ledger
pub mod StartLedger
pub mod Conservation
pub mod Standing
pub mod LivingListed
