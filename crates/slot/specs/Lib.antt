pub mod Slots
pub mod Placing
pub mod Holding
pub mod Lawful
