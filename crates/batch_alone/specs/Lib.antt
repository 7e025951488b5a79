pub mod Books
pub mod Steps
pub mod Readings
pub mod Stops
pub mod Starts
