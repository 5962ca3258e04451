pub mod Preempting
unfoldable pub use Preempting.*
