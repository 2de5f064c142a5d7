pub mod Seeks
pub mod Told
