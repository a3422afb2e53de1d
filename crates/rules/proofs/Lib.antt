pub mod Faultless
mod Filled
