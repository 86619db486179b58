pub mod Filled
pub mod Noted
