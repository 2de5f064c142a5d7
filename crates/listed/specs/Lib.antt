pub mod Room
pub mod Printed
