pub mod Paired
pub mod PeerCalls
pub mod RunSteps
pub mod WorldEvents
