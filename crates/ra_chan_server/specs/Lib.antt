pub mod FaultTexts
pub mod Requests
pub mod Held
pub mod View
