pub mod Places
pub mod Histories
pub mod Pushing
pub mod OneMore
pub mod Placing
pub mod Adding
pub mod Keeping
pub mod Tables
pub mod Noting
pub mod RealTime
pub mod NoOrder
pub mod Steps
pub mod Marking
pub mod OwnOrder
pub mod Bridges
pub mod PointFacts
mod Verdicts
