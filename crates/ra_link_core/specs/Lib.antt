pub mod HubEvents
pub mod LinkRuns
pub mod Makes
pub mod Cores
pub mod Carried
