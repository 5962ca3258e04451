pub mod Motion
unfoldable pub use Motion.*
