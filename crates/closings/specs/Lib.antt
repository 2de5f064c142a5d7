pub mod Values
pub mod Closing
