pub mod Sound
pub mod Players
pub mod Going
