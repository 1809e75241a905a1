-- From the run to the functions of a world.
pub mod Beginning
pub mod Entering
pub mod Growing
pub mod Tallied
pub mod Recorded
pub mod Found
pub mod Telling
pub mod Stepping
pub mod Onward
pub mod Ahead
pub mod Answering
pub mod Sending
pub mod Briefly
pub mod Merging
pub mod Reading
pub mod Noted
