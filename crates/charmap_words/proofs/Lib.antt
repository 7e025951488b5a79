pub mod SymbolPlaces
pub mod BytePlaces
pub mod Spellings
