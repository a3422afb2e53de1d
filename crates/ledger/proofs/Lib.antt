pub mod Soundness
pub mod Runs
