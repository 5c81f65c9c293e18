pub mod Refused
pub mod Moves
pub mod CallPaths
pub mod ReadyCall
pub mod After
pub mod Answered
