pub mod Departing
mod Least
