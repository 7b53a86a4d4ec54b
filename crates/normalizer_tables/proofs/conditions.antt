-- The written conditions and accepted data.
pub mod ConditionLemmas
pub mod ListedConditions
