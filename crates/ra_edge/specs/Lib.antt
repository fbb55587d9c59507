pub mod Lines
pub mod LineScripts
pub mod Starts
