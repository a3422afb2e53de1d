pub mod Numbers
pub mod Outputs
pub mod Places
pub mod Grammar
pub mod Readers
