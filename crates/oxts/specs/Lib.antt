pub mod Formats
pub mod Status
pub mod Words
pub mod Batches
