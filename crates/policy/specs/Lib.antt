-- Policies: their rule for a base, their bytes, and the default policy.
pub mod Policy
pub mod DefaultPolicy
pub mod PolicyBytes
pub mod Theorems
