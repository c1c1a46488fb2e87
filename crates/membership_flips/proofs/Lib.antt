-- The proofs of crate membership_flips.
pub mod Flipping
pub mod Using
pub mod Order
pub mod Bridge
pub mod Flagging
pub mod Skipping
pub mod Listing
pub mod Examples
pub mod Claims
mod Digits
