pub mod Steps
pub mod Opens
pub mod Kept
pub mod Counted
pub mod Jumps
pub mod Ruled
