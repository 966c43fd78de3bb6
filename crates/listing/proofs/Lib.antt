pub mod Bounds
pub mod Defined
pub mod Filled
pub mod Listed
pub mod Marked
pub mod Walked
pub mod Writes
