pub mod Runs
pub mod Decimals
pub mod Digits
