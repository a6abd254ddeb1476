mod Bytes
mod Held
pub mod Decided
pub mod Splits
