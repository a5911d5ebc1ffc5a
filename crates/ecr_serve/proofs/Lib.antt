pub mod WordsLemmas
pub mod CommandLemmas
pub mod ServerLemmas
pub mod ServerWordsLemmas
