pub mod ComeLemmas
pub mod ServeLemmas
pub mod FrameLemmas
pub mod KnownLemmas
pub mod CompleteLemmas
pub mod LoopLemmas
