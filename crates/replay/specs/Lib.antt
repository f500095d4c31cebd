-- The order in which to read.
pub mod Events
pub mod Accounts
pub mod Replays
