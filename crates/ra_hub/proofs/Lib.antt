pub mod Calling
mod OverLemmas
pub mod SessionMaps
pub mod SweepLemmas
pub mod Endings
pub mod KeyLists
pub mod AdmittedRows
pub mod HubLemmas
pub mod HubCalls
pub mod SweptHubs
pub mod SeatLemmas
pub mod AdmittedHubs
pub mod OthersLemmas
mod HubRows
