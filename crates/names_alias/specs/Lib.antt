pub mod NameForm
pub mod Builtin
pub mod Aliases
pub mod CallerNames
pub mod Lookups
pub mod Front
pub mod Scan
