pub mod Blanks
pub mod Notices
pub mod Tables
pub mod NoticeLaws
pub mod Example
