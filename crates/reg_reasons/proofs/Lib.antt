pub mod OperationsCounted
pub mod Operations
pub mod WhyTold
