pub mod Decimals
mod Cut
mod Words
mod SplitLines
mod LineEnds
mod LinkRows
pub mod Unique
