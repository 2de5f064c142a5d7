pub mod Flags
pub mod Kept
