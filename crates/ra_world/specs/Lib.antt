pub mod Chosen
pub mod EndEvents
pub mod Outcomes
pub mod PairedWorlds
pub mod Runs
pub mod WorldStates
