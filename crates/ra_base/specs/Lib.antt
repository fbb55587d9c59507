pub mod Outcome
pub mod TokenGrammar
pub mod Kinds
pub mod Keys
pub mod Reasons
