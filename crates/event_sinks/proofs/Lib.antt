pub mod Answering
pub mod Paging
mod Fronts
pub mod Hearing
mod Pairs
mod Marks
mod KeptCalls
mod Agreeing
pub mod Piped
pub mod Noting
pub mod Handing
pub mod Passing
pub mod Walking
