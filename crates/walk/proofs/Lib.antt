pub mod Nexts
pub mod Moved
pub mod Passed
pub mod Answered
pub mod Prefixes
