pub mod Dismissing
pub mod Keeping
pub mod Living
pub mod Opened
pub mod Learning
