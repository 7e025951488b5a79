pub mod Keeps
pub mod Finding
pub mod Trees
pub mod Forks
pub mod TreeCrosses
pub mod Crosses
