pub mod Formed
pub mod Steps
pub mod Question
pub mod KindNumbers
