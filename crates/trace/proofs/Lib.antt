pub mod Counting
pub mod Reader
pub mod RoundTrip
pub mod WordLaws
pub mod Writer
