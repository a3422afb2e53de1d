pub mod Counting
pub mod Storing
pub mod Lists
pub mod Filling
pub mod Passes
pub mod Making
pub mod References
