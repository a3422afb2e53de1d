pub mod Agendas
pub mod Grounds
pub mod Unserved
pub mod Passed
pub mod Ranks
