pub mod Limits
pub mod Command
pub mod Numbers
pub mod Asked
