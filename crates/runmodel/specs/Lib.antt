pub mod Fields
pub mod Line
pub mod Printed
unfoldable pub use Fields.*
unfoldable pub use Line.*
unfoldable pub use Printed.*
