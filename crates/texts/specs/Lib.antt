pub mod Kept
pub mod Stood
