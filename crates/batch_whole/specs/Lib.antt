pub mod Lines
pub mod Worlds
