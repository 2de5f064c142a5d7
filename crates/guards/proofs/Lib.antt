pub mod Guards
pub mod Changed
