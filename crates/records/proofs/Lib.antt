pub mod Handing
pub mod Points
pub mod Telling
