pub mod Stream
unfoldable pub use Stream.*
