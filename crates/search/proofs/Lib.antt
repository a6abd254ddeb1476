pub mod Places
pub mod Stacks
pub mod Depths
pub mod Held
pub mod Moves
