pub mod Blocks
pub mod Owned
