pub mod Puts
pub mod Numbers
pub mod Turns
pub mod Ends
pub mod Lined
