pub mod Columns
pub mod Turns
pub mod Trims
pub mod Means
pub mod Cases
pub mod Keys
pub mod Fours
