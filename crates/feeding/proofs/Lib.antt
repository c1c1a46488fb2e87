-- The proofs about the calls of a feed.
pub mod Beginning
pub mod Settling
pub mod Ending
pub mod Joining
pub mod Taking
pub mod Tails
pub mod Summing
pub mod Cuts
pub mod Scanning
pub mod Resting
pub mod Fronting
pub mod Pieces
pub mod LaterParts
pub mod LaterPieces
pub mod FirstPart
pub mod Copying
