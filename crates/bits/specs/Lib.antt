pub mod Field
pub mod Digits
pub mod Put
pub mod Pack
