pub mod Hops
pub mod Rows
pub mod Routes
pub mod Queues
pub mod Standing
pub mod Stepping
