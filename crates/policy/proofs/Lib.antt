-- Laws about a policy's words and bytes, and the theorems.
pub mod Bounds
pub mod Unused
pub mod Refusals
pub mod Bytes
pub mod DefaultBytes
pub mod ByteBits
pub mod ByEntry
pub mod RoundTrips
pub mod Equal
pub mod Claims
