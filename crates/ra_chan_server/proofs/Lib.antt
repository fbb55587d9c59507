pub mod Arrivals
pub mod Lists
pub mod Entries
pub mod Several
pub mod Texts
pub mod Ids
