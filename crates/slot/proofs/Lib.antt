pub mod Cutting
pub mod Placing
pub mod Puts
pub mod Oldest
