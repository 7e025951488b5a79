pub mod Bytes
pub mod CodeBack
pub mod Tables
pub mod Examples
