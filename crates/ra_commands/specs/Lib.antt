pub mod GrandLines
pub mod GrandSteps
pub mod Grand
pub mod Programs
