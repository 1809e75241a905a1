pub mod Peers
pub mod Pops
pub mod Deliver
pub mod Deliveries
pub mod Queues
pub mod Sending
pub mod Acks
pub mod Calls
pub mod Listing
pub mod Again
pub mod Pending
pub mod Outs
pub mod Waiting
mod Knowing
