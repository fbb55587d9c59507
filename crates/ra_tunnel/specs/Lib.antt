pub mod Turns
pub mod Ends
pub mod Pipes
pub mod Joins
