pub mod Accounts
pub mod Refusals
