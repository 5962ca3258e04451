pub mod Comparison
pub mod Jumps
pub mod Queues
pub mod Scheme
pub mod Sides
pub mod Waits
unfoldable pub use Comparison.*
unfoldable pub use Jumps.*
unfoldable pub use Queues.*
unfoldable pub use Scheme.*
unfoldable pub use Sides.*
unfoldable pub use Waits.*
