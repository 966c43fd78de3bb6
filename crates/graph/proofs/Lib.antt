pub mod Below
pub mod Eliminations
pub mod Equations
pub mod Forests
pub mod Members
pub mod Nexts
pub mod Orders
pub mod Paths
