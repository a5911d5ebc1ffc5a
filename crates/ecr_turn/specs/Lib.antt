pub mod Journals
pub mod Passes
pub mod Turns
pub mod Laws
pub mod Rule
pub mod Steps
pub mod Seats
pub mod Register
