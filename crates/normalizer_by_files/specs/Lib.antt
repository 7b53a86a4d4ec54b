pub mod PreparedForms
pub mod UnicodeForms
