pub mod Laid
pub mod Numbers
pub mod Heads
pub mod PlayerLines
pub mod Spelled
pub mod Lengths
pub mod Reached
pub mod Readings
