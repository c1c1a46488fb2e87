-- Sets of variation entries, sets of policy keys, the operations on them, and the display of a key set.
pub mod Sets
pub mod KeySets
pub mod Display
pub mod Theorems
