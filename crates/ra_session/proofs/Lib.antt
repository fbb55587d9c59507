mod SessionRows
pub mod Standing
pub mod Refusing
pub mod Packing
pub mod Meanings
pub mod TurnSteps
pub mod WholeTurns
pub mod SaySteps
pub mod TickSteps
pub mod Beginning
pub mod TurnLaws
pub mod Roles
pub mod LinkLaws
pub mod Soundness
pub mod Carrying
