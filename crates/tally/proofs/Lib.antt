mod Bounds
pub mod Starts
mod Records
mod Fills
