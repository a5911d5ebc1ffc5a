pub mod Fields
pub mod Blobs
pub mod Objects
pub mod Thin
pub mod Passing
pub mod Thinning
