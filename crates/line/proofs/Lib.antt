pub mod Takes
pub mod Records
pub mod Memory
