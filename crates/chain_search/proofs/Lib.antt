pub mod Relaxing
pub mod Searching
pub mod Tracing
pub mod Turning
pub mod Frontiers
pub mod Offers
pub mod Shortness
