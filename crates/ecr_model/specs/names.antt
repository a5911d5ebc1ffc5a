pub mod Texts
pub mod Names
pub mod Digests
pub mod Tags
pub mod Sites
pub mod Uploads
