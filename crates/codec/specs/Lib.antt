pub mod Answers
pub mod Writing
unfoldable pub use Answers.*
unfoldable pub use Writing.*
