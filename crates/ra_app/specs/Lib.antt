pub mod Effects
pub mod ToolsTable
