mod AsBox
mod Crosses
mod OpeningLemmas
mod PreparedLemmas
mod RangeLemmas
mod RefusalLemmas
