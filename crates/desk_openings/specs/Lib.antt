pub mod Parts
pub mod Pinning
pub mod Beginnings
pub mod Layouts
pub mod Preparing
pub mod Entering
