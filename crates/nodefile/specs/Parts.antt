-- Parts of the node list that hold trees, for the walks over them: a node of a part (`Nodes`), and a loop over siblings (`Siblings`).
pub mod Nodes
pub mod Siblings
pub use Nodes.{alone, Split, One, Named}
pub use Siblings.{Walk, Left, Sibling}
