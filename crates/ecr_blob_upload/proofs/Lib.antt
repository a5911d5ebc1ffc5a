pub mod ContentLemmas
