mod BelowLemmas
mod FrontLemmas
mod LastLemmas
pub mod MaskLemmas
mod PathLemmas
mod PathnameLemmas
mod PieceLemmas
mod PlainLemmas
mod SlashedLemmas
mod StopLemmas
