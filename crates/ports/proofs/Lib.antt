mod Rings
mod Rows
pub mod Misses
mod Brought
