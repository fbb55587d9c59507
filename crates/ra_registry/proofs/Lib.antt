pub mod SameKeys
pub mod RowLemmas
pub mod TableLemmas
pub mod HistoryRows
pub mod LegalHistories
pub mod SeatCounts
pub mod Epochs
pub mod Entered
pub mod StartRows
pub mod Accepted
pub mod KeptLemmas
pub mod Expiries
pub mod CountLemmas
pub mod PresentRows
pub mod LawLemmas
mod WorkedRows
