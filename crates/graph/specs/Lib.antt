pub mod Columns
pub mod Examples
pub mod Graphs
pub mod Picking
pub mod Theorems
