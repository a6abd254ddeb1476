pub mod Nets
pub mod Settings
pub mod Members
pub mod Limits
pub mod Sources
pub mod Tested
