pub mod Ranks
pub mod Copies
pub mod Listed
pub mod Tables
pub mod Visits
pub mod Surveys
pub mod Answers
