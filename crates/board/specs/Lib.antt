pub mod Rows
pub mod Boards
pub mod Making
pub mod Switching
