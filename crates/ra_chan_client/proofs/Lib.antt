pub mod Ascents
pub mod Kept
pub mod TakenBack
