pub mod Weights
pub mod Pairing
pub mod Once
pub mod Complete
pub mod Sharing
