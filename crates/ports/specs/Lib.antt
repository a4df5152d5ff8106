pub mod Queues
pub mod Refusals
pub mod Ports
pub mod Answers
