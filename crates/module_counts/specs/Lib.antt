pub mod Tracking
pub mod Lives
pub mod Stocks
pub mod Admitting
pub mod Successes
pub mod Counting
pub mod Inside
