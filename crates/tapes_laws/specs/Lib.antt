pub mod Limits
pub mod Options
pub mod Source
pub mod Kinds
pub mod Given
pub mod Tape
pub mod Held
pub mod Answers
pub mod Contract
pub use Limits.*
unfoldable pub use Options.*
unfoldable pub use Source.*
pub use Kinds.*
unfoldable pub use Given.*
unfoldable pub use Tape.*
pub use Held.*
unfoldable pub use Answers.*
pub use Contract.*
