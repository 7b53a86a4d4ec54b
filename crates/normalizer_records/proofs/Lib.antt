pub mod replacing
pub mod checked_lists
pub mod record_faults
pub mod RangeLemmas
pub mod RangeRecords
pub mod RisingLemmas
