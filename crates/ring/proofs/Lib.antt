pub mod Writing
pub mod Turning
pub mod Elements
pub mod Granted
pub mod Held
