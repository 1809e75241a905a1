pub mod Lines
pub mod Choices
pub mod Strays
pub mod Leaves
pub mod Programs
pub mod Getters
pub mod Chosen
pub mod Told
