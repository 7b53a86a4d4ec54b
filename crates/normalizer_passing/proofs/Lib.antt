pub mod BlockLemmas
pub mod ByteLemmas
pub mod UnitLemmas
