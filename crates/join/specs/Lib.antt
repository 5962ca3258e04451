pub mod Contract
pub mod Forms
unfoldable pub use Contract.*
