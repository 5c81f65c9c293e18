pub mod Rising
pub mod Zipped
pub mod Alone
mod Arrays
mod Fews
