pub mod Fields
pub mod Records
pub mod Buffers
pub mod Laws
pub mod Classes
pub mod Refused
