pub mod SeatLists
pub mod Receipts
pub mod LockedStates
pub mod SharedCalls
pub mod HandleSeats
pub mod PlaceMarks
pub mod Accounts
pub mod EndFaults
