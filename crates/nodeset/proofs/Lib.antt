pub mod Bits
pub mod Counted
pub mod Firsts
pub mod Found
pub mod Joined
pub mod Members
pub mod Rowed
pub mod Walked
