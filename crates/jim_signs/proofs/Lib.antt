pub mod DigitLemmas
pub mod KnownLemmas
pub mod LeadLemmas
pub mod NameLemmas
pub mod FirstLemmas
pub mod TextLemmas
pub mod SignLemmas
pub mod PieceLemmas
