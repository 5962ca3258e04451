pub mod Stages
pub mod Represented
pub mod Models
pub mod Lists
pub mod Answers
pub mod Told
