pub mod Chains
pub mod Answer
pub mod Steps
pub mod Frontier
pub mod Search
pub mod Laws
