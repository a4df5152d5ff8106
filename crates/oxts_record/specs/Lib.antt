pub mod ChannelSets
pub mod Snapshots
pub mod Navigations
pub mod Questions
pub mod Heard
pub mod Records
pub mod Families
pub mod Readings
