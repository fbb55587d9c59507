pub mod ShortLemmas
pub mod LookLemmas
pub mod Standing
pub mod AttemptRows
pub mod LinkRows
pub mod EndRows
pub mod LookRows
pub mod StepRows
pub mod CallRows
mod Rows
pub mod Sessions
pub mod Alike
pub mod RunLemmas
pub mod RequestLemmas
pub mod HandedUpLemmas
