pub mod Columns
pub mod Claims
pub mod Walks
unfoldable pub use Columns.*
pub use Claims.*
unfoldable pub use Walks.*
