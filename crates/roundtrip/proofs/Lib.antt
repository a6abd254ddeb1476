pub mod Throughs
pub mod Shown
pub mod Starts
pub mod Heads
pub mod Packed
