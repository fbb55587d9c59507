pub mod Pieces
pub mod Served
pub mod Carried
