pub mod Readings
pub mod Named
pub mod Writings
pub mod Values
