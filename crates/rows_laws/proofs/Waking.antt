pub mod WakeOne
pub mod WakeMany
pub mod ReadyRows
pub mod SortedJoin
pub mod WholeList
