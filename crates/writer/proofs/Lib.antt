pub mod Emitting
pub mod Whole
