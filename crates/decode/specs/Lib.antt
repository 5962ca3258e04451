pub mod Stages
pub mod Models
pub mod Lists
pub mod Decodes
unfoldable pub use Stages.*
unfoldable pub use Models.*
unfoldable pub use Lists.*
unfoldable pub use Decodes.*
