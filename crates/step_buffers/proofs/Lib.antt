pub mod Scratch
pub mod Bridge
pub mod Verdicts
pub mod Streams
