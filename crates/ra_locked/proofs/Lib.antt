pub mod Steps
pub mod Accounted
pub mod Places
pub mod EndFaultLemmas
pub mod Sums
