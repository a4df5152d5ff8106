pub mod Follows
mod Numbers
mod Walk
mod Fates
mod Policies
pub mod Accounts
pub mod Alike
pub mod Laws
