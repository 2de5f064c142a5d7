pub mod Ascii
pub mod Lists
pub mod First
pub mod Table
pub mod Decides
