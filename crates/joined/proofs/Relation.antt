-- The relation: a state of the joined run as a part sees it, beside a state of that part alone.
pub mod Naming
pub mod Seen
pub mod NewNames
pub mod Paces
