pub mod BytesLemmas
pub mod EventLemmas
pub mod OfferLemmas
pub mod ReadLemmas
pub mod HistoryLemmas
pub mod FateLemmas
