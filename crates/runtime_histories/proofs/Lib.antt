pub mod Pairs
pub mod Basics
pub mod Balance
pub mod LeastChains
pub mod Legality
pub mod Pinning
