pub mod Own
pub mod Ending
pub mod Making
pub mod Working
pub mod Crosses
