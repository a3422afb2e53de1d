pub mod Performing
pub mod Scripting
pub mod Tables
pub mod Balancing
pub mod Ending
