pub mod Claims
pub mod Position
unfoldable pub use Claims.*
unfoldable pub use Position.*
