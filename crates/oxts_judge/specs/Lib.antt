pub mod Causes
pub mod Bodies
pub mod Judge
pub mod Models
pub mod Lawful
pub mod Packets
