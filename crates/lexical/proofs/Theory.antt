-- Proofs. Of walk three: one induction (Induct) with two instances, Means for T1 and Chains for T2 and T3, over Slots, Lead, Fine, Brought, Declared, Links, Same; a file's last state in Last.
-- Of what every step keeps: Every. Of what each block takes: Kinds, Listed, Count, Sized. Then the theorems: Outer, Outcome, Nodes, Captured, Least (with Pigeon), Apart, Tabled, Parameters.
-- Of Names and bindings: where a block's targets stand (Spots, Owners), what it makes of a name (Makes), one induction by blocks (Blockwise), each row (Titles), the theorems (Named). Of slots and schemes: Filled, Labels.
pub mod Apart
pub mod Blockwise
pub mod Brought
pub mod Captured
pub mod Chains
pub mod Count
pub mod Declared
pub mod Every
pub mod Filled
pub mod Fine
pub mod Induct
pub mod Kinds
pub mod Labels
pub mod Last
pub mod Lead
pub mod Least
pub mod Links
pub mod Listed
pub mod Makes
pub mod Means
pub mod Modules
pub mod Named
pub mod Nodes
pub mod Outcome
pub mod Outer
pub mod Owners
pub mod Parameters
pub mod Pigeon
pub mod Same
pub mod Sized
pub mod Slots
pub mod Spots
pub mod Tabled
pub mod Titles
