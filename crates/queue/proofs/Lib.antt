pub mod Admission
pub mod Carrying
pub mod Reading
