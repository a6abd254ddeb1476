pub mod Numbered
pub mod Ways
pub mod Links
pub mod Settings
pub mod Members
pub mod Pairs
mod Ladders
pub mod Asked
pub mod Tested
