pub mod Parts
pub mod Toils
pub mod Stints
pub mod Teams
pub mod Settling
pub mod Starts
