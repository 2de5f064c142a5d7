pub mod Put
pub mod Listing
pub mod Lent
pub mod Outcomes
