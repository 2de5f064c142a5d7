pub mod Entries
pub mod Once
pub mod Laws
pub mod Ranges
