pub mod KeptTable
pub mod KeptRows
pub mod Keepers
