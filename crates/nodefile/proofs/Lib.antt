pub mod Laws
mod Counted
