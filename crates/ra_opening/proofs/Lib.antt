pub mod RunLemmas
pub mod FindLemmas
pub mod BudgetLemmas
pub mod ShakeLemmas
pub mod BeginLemmas
pub mod PieceLemmas
pub mod LawLemmas
pub mod ServedLemmas
