pub mod GrandEvents
pub mod GrandStates
pub mod Servings
pub mod Spots
