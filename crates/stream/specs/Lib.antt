pub mod Records
pub mod Fronts
pub mod Bodies
pub mod Readers
pub mod Writers
