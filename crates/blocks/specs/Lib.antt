pub mod Execute
unfoldable pub use Execute.*
