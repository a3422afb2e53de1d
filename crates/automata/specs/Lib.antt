pub mod Words
pub mod Tables
pub mod Boardings
pub mod Pairs
