pub mod JsonLemmas
pub mod MarkLemmas
pub mod OrderLemmas
pub mod ReadingLemmas
pub mod SetLemmas
