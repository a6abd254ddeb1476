pub mod Marked
pub mod Rows
pub mod Ways
pub mod Closing
