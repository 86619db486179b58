-- What the contracts of the functions inside the crate cite; nothing of it is needed to read what judging answers.
pub mod Node
pub mod Row
