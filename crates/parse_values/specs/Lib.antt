pub mod Keeps
pub mod Shapes
pub mod Filled
pub use Keeps.*
unfoldable pub use Shapes.*
unfoldable pub use Filled.*
