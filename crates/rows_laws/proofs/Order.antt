pub mod SortedInsertion
pub mod RowOrders
pub mod StayInOrder
