pub mod names
pub mod http
pub mod documents
pub mod registry
pub mod sessions
pub mod examples
