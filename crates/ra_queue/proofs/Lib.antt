pub mod Fronts
pub mod Marked
