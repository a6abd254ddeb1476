pub mod Made
pub mod Gone
