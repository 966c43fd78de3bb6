pub mod Faults
pub mod Fills
pub mod Refusals
pub mod Tables
pub mod Texts
