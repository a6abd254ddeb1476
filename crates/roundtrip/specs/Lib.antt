pub mod Packs
pub mod Heads
pub mod Stages
pub mod Packers
