pub mod Wide
pub mod Words
pub mod Read
pub mod Ends
