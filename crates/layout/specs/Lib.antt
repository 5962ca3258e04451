pub mod Layout
pub mod Tags
pub mod Numbers
pub mod Represents
pub mod Forms
pub mod All
