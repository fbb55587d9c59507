pub mod Lines
pub mod Receive
pub mod Progress
pub mod WholeInput
pub mod ReplayLines
pub mod Replay
pub mod Stepping
pub mod Soak
