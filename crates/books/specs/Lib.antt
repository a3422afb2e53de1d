pub mod Examples
pub mod Kinds
