pub mod ValueLemmas
pub mod PlaceLemmas
pub mod ThinLemmas
pub mod TokenLemmas
