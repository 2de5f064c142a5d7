pub mod Told
pub mod KeptLines
pub mod Left
