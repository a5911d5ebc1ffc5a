pub mod Matches
pub mod Agreed
