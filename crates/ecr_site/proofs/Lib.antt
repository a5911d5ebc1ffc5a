pub mod CrossingLemmas
pub mod StateLemmas
