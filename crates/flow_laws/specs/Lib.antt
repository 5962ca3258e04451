pub mod Samples
pub mod Sending
pub mod Questions
pub mod Kinds
pub mod Gathering
unfoldable pub use Samples.*
unfoldable pub use Sending.*
unfoldable pub use Questions.*
unfoldable pub use Kinds.*
unfoldable pub use Gathering.*
