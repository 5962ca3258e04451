pub mod Taking
unfoldable pub use Taking.*
