pub mod Answers
pub mod Asking
pub mod Cuts
pub mod Knowing
pub mod Loading
pub mod Plans
pub mod Entered
