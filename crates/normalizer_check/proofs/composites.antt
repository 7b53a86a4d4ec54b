-- Pairs and what they compose to.
pub mod PairConditionLemmas
pub mod PairLaws
pub mod MemberLemmas
