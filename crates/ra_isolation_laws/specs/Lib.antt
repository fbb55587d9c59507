pub mod Isolation
pub mod Parted
