pub mod Answers
pub mod Spans
pub mod Walks
pub mod Timetables
pub mod Roads
pub mod Faults
