pub mod Good
pub mod Held
