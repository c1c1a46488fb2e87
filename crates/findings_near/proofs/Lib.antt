-- The proofs of crate findings_near.
pub mod Order
pub mod Stretches
pub mod Distances
pub mod NextRows
pub mod AroundPass
pub mod CountPass
pub mod NearestPass
pub mod Calls
pub mod Claims
