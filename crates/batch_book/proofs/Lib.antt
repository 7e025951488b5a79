pub mod Resident
pub mod Lasting
pub mod Living
pub mod Working
