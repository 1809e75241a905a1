pub mod Known
pub mod Accessors
pub mod Lists
pub mod Spelled
pub mod Loaded
pub mod Whole
pub mod Refused
pub mod Heads
pub mod Plans
pub mod ReadBack
pub mod Writing
mod Fitting
mod WordMisfits
mod TellWords
mod SpelledWords
mod ToldLines
