pub mod OneBit
pub mod Hearing
pub mod FormatReads
