pub mod Cells
pub mod StateLaws
pub mod States
