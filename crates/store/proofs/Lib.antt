-- The proofs about a store: sums over clients, one call, lists of calls, and the store in bytes.
pub mod Sums
pub mod Messages
pub mod Formats
pub mod Steps
pub mod Runs
pub mod Small
pub mod Words
pub mod Slots
pub mod Represented
pub mod Beginning
pub mod Using
pub mod NewStores
pub mod Claims
