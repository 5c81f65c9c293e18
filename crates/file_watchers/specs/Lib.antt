pub mod Ids
pub mod Watchers
pub mod WatcherRow
