-- What a store in a section does to the relation.
pub mod Lengths
pub mod Full
pub mod Points
pub mod Made
pub mod Chain
pub mod Slots
pub mod Copied
pub mod Nodes
pub mod Around
pub mod Names
pub mod Reach
pub mod Placed
