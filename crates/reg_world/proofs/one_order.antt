-- From one process to one order of casts, and quiescence.
pub mod Links
pub mod Local
pub mod Acts
pub mod Frames
pub mod Accepting
pub mod Casting
pub mod NodeEvents
pub mod Runs
pub mod Worlds
pub mod NodeLaws
pub mod Firsts
pub mod Wholes
pub mod Answered
pub mod Settled
pub mod Allowed
pub mod Acting
