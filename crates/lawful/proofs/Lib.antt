pub mod Parts
pub mod Transfer
pub mod Lent
