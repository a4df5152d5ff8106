pub mod Manual
pub mod Quiets
