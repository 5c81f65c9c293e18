pub mod Bounds
pub mod Greatest
pub mod PathText
pub mod Paths
pub mod Pieces
pub mod Refusals
pub mod Rows
