pub mod CompareLemmas
pub mod SignatureLemmas
