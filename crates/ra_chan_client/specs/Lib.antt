pub mod Held
pub mod TakingBack
pub mod View
pub mod FaultTexts
