pub mod Words
pub mod Server
pub mod Serving
