pub mod FieldLines
pub mod Fields
pub mod Framing
pub mod Fronts
pub mod Chunks
pub mod Stream
pub mod Hosts
pub mod Replies
