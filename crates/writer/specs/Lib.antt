pub mod Emission
pub mod Parts
pub mod Networks
pub mod Lent
