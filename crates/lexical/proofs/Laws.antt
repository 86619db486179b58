-- Laws for code that walks a tree and keeps the records in buffers.
-- The walks at each kind of node: Collect, Declare, Visit, Nodes. What each step adds: Notes, Adds. Where numbers stand and how large they get: Numbers, Below, Params, Scopes.
-- How much room there must be: Capacity, Room, Grows. That every Name has its row: Whole, Rows.
pub mod Adds
pub mod Below
pub mod Capacity
pub mod Collect
pub mod Declare
pub mod Grows
pub mod Nodes
pub mod Notes
pub mod Numbers
pub mod Params
pub mod Room
pub mod Rows
pub mod Scopes
pub mod Visit
pub mod Whole
