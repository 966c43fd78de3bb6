pub mod Codes
pub mod Layouts
pub mod Outcomes
pub mod Pigeons
pub mod Places
pub mod Prefix
pub mod Runs
pub mod Steps
