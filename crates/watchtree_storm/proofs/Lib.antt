pub mod Turns
pub mod HeldBack
pub mod NextIds
pub mod Listening
mod Sinks
