pub mod Parts
pub mod Memories
pub mod Turns
pub mod Rings
