-- The written conditions and accepted data.
pub mod AcceptedLaws
pub mod EachCondition
pub mod FailingLemmas
pub mod FirstFailing
pub mod LoadedLemmas
pub mod WalkLemmas
