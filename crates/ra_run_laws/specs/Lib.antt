pub mod KeptRows
pub mod Runs
pub mod Rising
pub mod SaidPackets
