pub mod Recipes
pub mod Examples
