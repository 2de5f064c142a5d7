pub mod Ids
pub mod Laid
pub mod Rows
