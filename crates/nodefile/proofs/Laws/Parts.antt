-- Laws of parts of the node list that hold trees, for the walks over them.
pub mod Nodes
pub mod Siblings
pub use Nodes.{kind_take, size_take, value_take, below-take, after-take, split, kids_part, kids_length, one, some_long, named}
pub use Siblings.{sibling_part, size_from, valid_apart, left_start, left_end, left_split, left_sibling, left_one, left_fine, left_reads, left_more, sibling_length, sibling_size}
