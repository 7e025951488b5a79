pub mod Edges
pub mod Numbers
pub mod Graph
pub mod Laws
pub mod ByTarget
pub mod Drafts
