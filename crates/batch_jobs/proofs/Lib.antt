pub mod FileNames
pub mod Ranges
pub mod MadeLines
pub mod MadeWords
