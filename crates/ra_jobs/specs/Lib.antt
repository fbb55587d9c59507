pub mod Names
pub mod Logs
pub mod Seats
pub mod Orders
