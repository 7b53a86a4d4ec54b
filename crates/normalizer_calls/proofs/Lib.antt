pub mod HandedInData
pub mod passthrough
pub mod segments
pub mod written_forms
pub mod results
