pub mod Join
pub mod Parts
unfoldable pub use Join.*
unfoldable pub use Parts.*
