pub mod Form
pub mod Cuts
pub mod Readings
