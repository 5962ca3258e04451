-- Laws of lists and sums, of no state.
pub mod Cases
pub mod Sums
pub mod Chosen
pub mod Sorted
pub mod Lines
pub mod SumFacts
pub mod Sorting
