-- Below all other laws, of this crate and of those above it: tests, members of lists, and what taking leaves as it is.
pub mod Bools
pub mod Lists
pub mod Each
pub mod Taking
