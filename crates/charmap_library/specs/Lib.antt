pub mod Builds
pub mod Fetching
pub mod Refusals
