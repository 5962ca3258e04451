pub mod Store
pub mod RowData
pub mod HintsAndHolders
pub mod RowWrites
pub mod FieldWrites
pub mod PastEnd
