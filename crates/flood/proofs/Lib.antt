pub mod Sweeps
pub mod Ranges
pub mod Lengths
