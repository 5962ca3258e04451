pub mod Start
unfoldable pub use Start.*
