pub mod Said
pub mod Fields
