pub mod ChainTables
pub mod Runtime
pub mod Openings
pub mod Calls
pub mod Descriptors
pub mod Preparing
pub mod Starting
pub mod Inside
