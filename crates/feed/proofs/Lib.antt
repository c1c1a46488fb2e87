-- The proofs about a feed: characters taken one after the other, lists of calls, room, and the feed in bytes.
pub mod Feeding
pub mod Answered
pub mod Calls
pub mod LastBase
pub mod OneCall
pub mod PieceRoom
pub mod Reading
pub mod Testing
pub mod Writing
pub mod Back
pub mod Kept
pub mod InBytes
pub mod Claims
