-- Forms that are written.
pub mod MemberLemmas
pub mod PartLemmas
pub mod WritingLemmas
