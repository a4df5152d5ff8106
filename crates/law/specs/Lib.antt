pub mod Calls
pub mod Runs
pub mod Slots
pub mod States
pub mod Laws
