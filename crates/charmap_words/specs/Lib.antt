pub mod Digits
pub mod Symbols
pub mod Spelling
pub mod Places
pub mod Examples
