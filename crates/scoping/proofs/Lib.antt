pub mod Deep
pub mod Holding
pub mod Noting
pub mod Naming
pub mod Cells
pub mod Known
pub mod Answers
