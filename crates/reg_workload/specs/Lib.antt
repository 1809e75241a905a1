pub mod Plays
pub mod Fair
pub mod Seeded
pub mod Rounds
pub mod PlayParts
pub mod FairParts
pub mod Listed
