-- The order in which to read.
pub mod Queues
pub mod Sessions
pub mod Calls
pub mod Delivery
pub mod Invocations
pub mod Provider
pub mod Ledger
pub mod Histories
pub mod Statements
pub mod Accounts
pub mod Progress
pub mod Examples
