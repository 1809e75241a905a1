pub mod Topics
pub mod Printed
pub mod Lines
pub mod Statuses
