pub mod Planners
pub mod Alike
