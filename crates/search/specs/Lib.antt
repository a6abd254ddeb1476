pub mod Descents
pub mod Frames
pub mod States
