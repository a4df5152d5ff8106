pub mod Kinds
pub mod Refusals
pub mod Reading
pub mod Rules
pub mod Keeps
pub mod Questions
