pub mod MachineArrivals
pub mod RowArrivals
