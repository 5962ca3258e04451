pub mod Formed
pub mod Shapes
unfoldable pub use Formed.*
unfoldable pub use Shapes.*
