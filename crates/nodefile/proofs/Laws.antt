-- Laws of the definitions in specs/, each file beside the one of its name there.
pub mod Fitting
pub mod Reads
pub mod Trees
pub mod Order
pub mod Parts
pub mod Nested
pub mod Listed
pub mod FileLaws
pub mod Tabled
