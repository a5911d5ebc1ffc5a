pub mod MatchesLemmas
pub mod WildLemmas
