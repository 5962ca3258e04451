pub mod Evaluation
pub mod Nested
pub mod Relations
pub mod Sees
unfoldable pub use Evaluation.*
unfoldable pub use Nested.*
unfoldable pub use Sees.*
