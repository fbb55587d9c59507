pub mod Heads
pub mod Items
pub mod Readers
pub mod Reads
