pub mod Before
pub mod Agenda
pub mod Frontiers
pub mod Worlds
