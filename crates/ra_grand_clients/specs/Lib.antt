pub mod ClientLinks
pub mod ClientStates
pub mod Crowds
