pub mod Refusals
pub mod Lines
pub mod Datagrams
pub mod Steps
pub mod Meters
