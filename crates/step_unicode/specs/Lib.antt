pub mod Points
pub mod Utf8
pub mod Utf16
pub mod Ucs4
pub mod Sets
pub mod Runs
pub mod Answers
