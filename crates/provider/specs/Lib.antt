pub mod Answers
pub mod Selections
pub mod Buffers
pub mod Held
pub mod Sessions
pub mod Invoking
pub mod States
pub mod Opening
