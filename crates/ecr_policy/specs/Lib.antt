pub mod Marks
pub mod Places
pub mod Sets
pub mod Shown
