pub mod CallerNames
pub mod AliasLemmas
pub mod LookupLemmas
pub mod Scans
pub mod Examples
