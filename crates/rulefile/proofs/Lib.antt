pub mod Entering
pub mod Loading
