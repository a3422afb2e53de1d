pub mod Lines
pub mod SlipLines
