pub mod Walk
pub mod Watch
unfoldable pub use Walk.*
unfoldable pub use Watch.*
