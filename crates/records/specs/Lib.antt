pub mod Stream
pub mod Records
