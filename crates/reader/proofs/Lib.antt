pub mod Moves
pub mod Progressing
pub mod Feeding
