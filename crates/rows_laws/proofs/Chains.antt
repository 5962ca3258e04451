pub mod Chain
pub mod StructuralLaw
pub mod CellChanges
pub mod ListChanges
pub mod InsertRemove
pub mod Showing
pub mod TakeFirst
pub mod RemoveRow
