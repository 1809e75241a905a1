pub mod Counted
pub mod Flagged
pub mod Telling
pub mod Shortly
pub mod Viewed
