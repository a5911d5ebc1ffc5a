pub mod Deeds
pub mod Desks
pub mod Doors
pub mod Holds
pub mod Shared
pub mod SiteCells
pub mod Splits
pub mod Turns
