-- What names mean: the theory on trees, with its three theorems. Read in this order.
-- Definitions: the tree and what its blocks bind (Tree, Table, Binders, Module); what a name means (Meaning, Order); the walks and what they make (State, Block, First, Second, Third); copies and records (Follow, Records).
pub mod Lists
pub mod Places
pub mod Sums
pub mod Tree
pub mod Table
pub mod Binders
pub mod Module
pub mod Meaning
pub mod Order
pub mod State
pub mod Block
pub mod First
pub mod Second
pub mod Third
pub mod Follow
pub mod Records
-- The words of the theorems, which stand in proofs/.
pub mod Claims
pub mod Blocks
pub mod Filled
pub mod Schemes
pub mod Labels
