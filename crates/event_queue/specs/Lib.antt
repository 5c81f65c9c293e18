pub mod Backlogs
pub mod Reads
pub mod Fates
pub mod Histories
pub mod Rings
