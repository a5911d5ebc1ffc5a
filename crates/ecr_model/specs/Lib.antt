pub mod names
pub mod http
pub mod documents
pub mod registry
pub mod requests
pub mod sessions
pub mod laws
pub mod examples
