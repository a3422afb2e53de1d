pub mod Ledgers
pub mod Sound
