pub mod Rests
pub mod Cursors
pub mod Told
pub mod Calls
pub mod Walks
