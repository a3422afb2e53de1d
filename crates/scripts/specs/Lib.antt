pub mod Scripts
pub mod Balances
pub mod Endings
