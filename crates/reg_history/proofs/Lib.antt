pub mod Fewer
pub mod Numerals
pub mod Formed
pub mod Tails
pub mod Older
pub mod Listed
pub mod Lacking
pub mod Whole
pub mod Writing
pub mod WithinLimits
pub mod Columned
pub mod Digits
mod Counted
mod PassedOn
mod Firsts
mod Stopping
mod Heads
mod Repeats
mod Endings
