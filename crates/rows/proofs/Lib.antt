pub mod PlayerRounds
pub mod Reach
pub mod PlayerLines
pub mod ShortLines
pub mod Letters
