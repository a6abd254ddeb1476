mod Decimals
mod Numbers
mod Ends
pub mod Tellings
