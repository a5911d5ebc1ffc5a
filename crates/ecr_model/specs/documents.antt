pub mod Documents
pub mod Conditions
pub mod Policies
pub mod Manifests
