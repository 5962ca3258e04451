pub mod Units
pub mod Waking
pub mod Taking
pub mod Freeing
pub mod WaitServer
unfoldable pub use Units.*
unfoldable pub use Waking.*
unfoldable pub use Taking.*
unfoldable pub use Freeing.*
unfoldable pub use WaitServer.*
