pub mod Note
pub mod Staying
pub mod Turn
pub mod Writes
unfoldable pub use Note.*
unfoldable pub use Staying.*
unfoldable pub use Turn.*
