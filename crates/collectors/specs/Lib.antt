pub mod Links
pub mod Exchanges
pub mod Offers
pub mod Eithers
