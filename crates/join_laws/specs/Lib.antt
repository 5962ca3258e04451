pub mod Written
pub mod Joining
pub mod Rows
pub mod Whole
pub mod AsAlone
unfoldable pub use Written.*
unfoldable pub use Joining.*
unfoldable pub use Rows.*
unfoldable pub use Whole.*
