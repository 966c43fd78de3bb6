pub mod Labels
pub mod Spelling
pub mod Turns
