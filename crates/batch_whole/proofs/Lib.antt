pub mod MadeRuns
pub mod WordRuns
pub mod WorkersAsked
