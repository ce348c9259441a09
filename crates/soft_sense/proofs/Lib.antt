pub mod LaneLemmas
pub mod ValueLemmas
