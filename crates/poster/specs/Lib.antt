pub mod Before
pub mod Boards
pub mod Posted
pub mod Merging
pub mod Asked
pub mod Orders
