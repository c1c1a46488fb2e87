-- The proofs about the calls of a store: words and sums, charging, filing, releasing, beginning.
pub mod Sums
pub mod Places
pub mod Charging
pub mod Filing
pub mod Releasing
pub mod Beginning
