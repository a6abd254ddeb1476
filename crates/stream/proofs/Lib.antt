mod Parts
pub mod Lengths
pub mod Numbers
pub mod Decoding
mod Parting
mod Lacking
pub mod Reread
mod Heads
