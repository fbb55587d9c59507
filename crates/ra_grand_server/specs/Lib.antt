pub mod Pieces
pub mod ServerCalls
pub mod ServerStates
pub mod Tellings
