mod Errors
mod Exchanged
mod Started
mod Opened
mod Forwards
mod Backs
mod Ends
mod Misplaced
mod Stepped
mod Reached
pub mod Questions
pub mod Nexts
pub mod Stopped
pub mod Fits
pub mod Single
