pub mod Answers
pub mod Results
unfoldable pub use Answers.*
