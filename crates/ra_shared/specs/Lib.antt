pub mod LockedCalls
pub mod Answers
pub mod LastStates
pub mod Ends
pub mod HandleCalls
