pub mod Text
pub mod Runs
pub mod Lines
pub mod Numbers
pub mod Hexadecimal
pub mod Complaints
pub mod Arguments
