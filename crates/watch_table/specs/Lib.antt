pub mod Index
pub mod Masks
pub mod Watching
pub mod Rows
