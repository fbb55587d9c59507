pub mod GrandReports
pub mod GrandRunning
pub mod GrandTexts
pub mod ProgramLemmas
pub mod WholeEvents
pub mod WholeScripts
