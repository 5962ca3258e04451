pub mod Answers
pub mod Whole
pub mod Words
unfoldable pub use Answers.*
pub use Whole.*
unfoldable pub use Words.*
