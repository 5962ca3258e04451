pub mod Ends
pub mod Steps
pub mod Turns
pub mod Last
pub mod Firsts
pub mod Contract
unfoldable pub use Ends.*
unfoldable pub use Steps.*
unfoldable pub use Turns.*
unfoldable pub use Last.*
unfoldable pub use Firsts.*
pub use Contract.*
