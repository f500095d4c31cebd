pub mod Sizes
pub mod Cells
pub mod Lawful
