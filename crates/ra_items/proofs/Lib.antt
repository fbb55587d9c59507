pub mod Fronts
pub mod HeadLemmas
pub mod FrameItems
pub mod ItemLemmas
pub mod ReaderLemmas
pub mod CallLemmas
