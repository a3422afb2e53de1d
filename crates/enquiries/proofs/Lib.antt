pub mod PastEnd
pub mod Lengths
