mod LabelLemmas
mod OffenceLineLemmas
mod ServedLemmas
