pub mod Limits
pub mod Held
pub mod Stands
pub mod Ends
pub mod Steps
pub mod Sound
