pub mod Parts
pub mod Serving
pub mod Counted
pub mod Filed
pub mod Lawful
pub mod Spelled
pub mod Keeping
pub mod Pumping
mod Instances
pub mod Opened
pub mod SoundWatches
pub mod SoundTrees
pub mod Untouched
pub mod BytesRead
pub mod InOrder
pub mod Accounts
mod Found
mod OfTree
mod Replies
mod Turns
mod Cookies
mod Quiet
mod Ends
mod Descriptors
mod Waiting
mod EachEntry
pub mod Shown
pub mod Soundness
mod Peeked
pub mod PathsFound
