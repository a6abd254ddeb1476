pub mod Ranked
pub mod Marked
pub mod Tours
pub mod Reached
pub mod Others
mod Rows
mod Copied
mod Steps
mod Filled
mod Starts
mod Served
pub mod Whole
