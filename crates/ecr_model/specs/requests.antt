pub mod Refusals
pub mod Members
pub mod Actions
pub mod Rendered
pub mod Requests
pub mod Posed
