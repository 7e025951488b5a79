pub mod Limits
pub mod Faults
pub mod Rows
pub mod Header
pub mod Mapping
pub mod Charmap
pub mod Scan
pub mod Examples
