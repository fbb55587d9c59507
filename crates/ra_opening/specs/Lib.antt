pub mod Openings
pub mod Stands
pub mod Comes
pub mod Budget
pub mod Begins
pub mod Verdicts
