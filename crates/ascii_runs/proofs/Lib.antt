-- The laws of runs of ASCII bytes. Proofs of other crates use AsciiRuns.
pub mod AsciiWords
pub mod AsciiRuns
pub mod Claims
