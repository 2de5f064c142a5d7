pub mod Cells
pub mod Steps
