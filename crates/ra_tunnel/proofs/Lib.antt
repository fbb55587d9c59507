pub mod FlowLemmas
pub mod TurnLemmas
pub mod JoinLemmas
