pub mod SlowJob
unfoldable pub use SlowJob.*
