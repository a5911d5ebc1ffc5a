pub mod NamesLemmas
pub mod DigestsLemmas
pub mod SitesLemmas
