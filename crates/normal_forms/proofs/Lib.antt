pub mod ordering
pub mod composing
pub mod boundaries
pub mod cuts
pub mod forms
pub mod examples
