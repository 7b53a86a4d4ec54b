-- Composition.
pub mod BeforeStarterLemmas
pub mod ComposingLemmas
pub mod CompositionLemmas
pub mod InPlaceLemmas
pub mod MarkLemmas
pub mod StarterLemmas
