mod Collecting
mod Counting
mod Replaying
