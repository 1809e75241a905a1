mod Rowwise
mod Received
mod Spelled
mod Begun
