pub mod Limits
pub mod Value
pub mod Line
pub mod Scales
pub use Limits.*
unfoldable pub use Value.*
unfoldable pub use Line.*
pub use Scales.*
