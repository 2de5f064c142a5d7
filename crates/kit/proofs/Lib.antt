pub mod Bools
pub mod Pairs
pub mod Places
pub mod Decided
pub mod Firsts
pub mod Lists
pub mod Tables
