pub mod Indexes
pub mod Told
