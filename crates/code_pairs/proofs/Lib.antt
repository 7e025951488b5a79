pub mod Codes
pub mod TableLaws
