-- The proofs about reading the parts of an item at an offset, and the proof of the statement.
pub mod TagRuns
pub mod PartsAt
pub mod UnitsAt
pub mod ModificationWalks
pub mod CursorWalks
pub mod UnitWalks
pub mod ItemWalks
pub mod Claims
