pub mod Totals
pub mod Tickets
pub mod Fairs
pub mod Settling
