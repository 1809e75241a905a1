pub mod FirstLines
pub mod Lent
pub mod Records
pub mod Tellings
pub mod TextFaults
