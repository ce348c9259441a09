pub mod FreshLemmas
pub mod NoiseLanes
pub mod SenseLemmas
