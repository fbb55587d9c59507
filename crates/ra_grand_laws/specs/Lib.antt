pub mod Ends
pub mod Outcomes
pub mod ChannelParts
pub mod Settling
pub mod GoodEnds
