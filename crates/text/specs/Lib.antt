pub mod Bytes
pub mod Window
pub mod Laws
