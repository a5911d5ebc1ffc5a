pub mod DigestsLemmas
pub mod RefusalsLemmas
