pub mod LaneLemmas
pub mod Utf8Lemmas
pub mod ReadLemmas
pub mod WindowLemmas
pub mod EndsLemmas
pub mod PickLemmas
pub mod ShortLemmas
pub mod FourLemmas
