-- From one order to one memory: copies, replies, and the past of each process.
pub mod Replicas
pub mod Placed
pub mod Standing
pub mod Turns
pub mod History
pub mod Joined
pub mod Kept
pub mod InPlace
pub mod Named
pub mod Copied
pub mod Added
pub mod Arrivals
pub mod Refusals
