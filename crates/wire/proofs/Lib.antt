pub mod Codec
pub mod Turns
pub mod At
pub mod Writing
pub mod Laws
pub mod Steps
pub mod Parts
