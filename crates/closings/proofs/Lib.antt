pub mod Closes
pub mod Worths
pub mod Shared
