pub mod Refusals
pub mod Table
pub mod Fields
