pub mod Run
pub mod Grid
pub mod Store
pub mod Kept
pub mod Check
