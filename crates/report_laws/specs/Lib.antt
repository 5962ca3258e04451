pub mod Writing
pub mod Counts
pub mod Living
pub mod Numbers
unfoldable pub use Writing.*
unfoldable pub use Counts.*
unfoldable pub use Living.*
unfoldable pub use Numbers.*
