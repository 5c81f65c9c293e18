pub mod Ended
pub mod Indexed
pub mod Maps
pub mod Turned
pub mod ByWd
pub mod Watched
