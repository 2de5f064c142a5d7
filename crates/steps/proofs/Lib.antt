pub mod Answers
pub mod Places
pub mod Went
pub mod Begun
