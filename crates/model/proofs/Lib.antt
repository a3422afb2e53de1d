pub mod Options
pub mod Worlds
pub mod Unique
pub mod Waiting
pub mod Halves
pub mod Asks
pub mod Extending
