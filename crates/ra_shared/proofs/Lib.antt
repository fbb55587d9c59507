pub mod Seated
pub mod Ended
