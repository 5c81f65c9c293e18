pub mod Lines
pub mod Reading
pub mod EveryCall
pub mod Moves
pub mod Raising
pub mod Removals
pub mod Stages
pub mod Earlier
pub mod Others
pub mod Followed
pub mod Lost
mod Moving
mod Hearing
