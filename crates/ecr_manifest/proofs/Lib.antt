pub mod GivenLemmas
pub mod ManifestLemmas
pub mod OnceLemmas
pub mod CountLemmas
