pub mod Tokens
pub mod Owning
pub mod Entries
pub mod Openings
pub mod Knowing
pub mod Looking
pub mod HeldLaws
