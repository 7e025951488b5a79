pub mod Putting
pub mod Covering
pub mod Acts
pub mod Asking
pub mod Publishing
