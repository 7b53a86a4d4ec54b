-- Pairs and what they compose to.
pub mod AllSeconds
pub mod BucketLemmas
pub mod PairLemmas
pub mod SingleComposites
pub mod SecondLemmas
