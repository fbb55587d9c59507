pub mod SessionViews
pub mod SessionLinks
