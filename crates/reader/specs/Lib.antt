pub mod Held
pub mod Ledgers
pub mod Progress
pub mod Standing
