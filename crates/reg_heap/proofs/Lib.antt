pub mod Rounded
pub mod Taken
pub mod Walks
mod Ticks
