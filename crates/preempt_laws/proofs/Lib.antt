pub mod PreemptLaws
pub mod Stated
