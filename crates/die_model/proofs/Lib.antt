pub mod AgedLemmas
pub mod HandedOn
pub mod KeptLemmas
pub mod WordLemmas
