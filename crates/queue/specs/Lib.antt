pub mod Answers
pub mod Changes
pub mod Carrying
