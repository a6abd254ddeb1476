pub mod Counts
pub mod Tables
pub mod Tallies
