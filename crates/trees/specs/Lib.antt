pub mod Cuts
pub mod Rules
pub mod Orders
pub mod Listings
pub mod Laws
