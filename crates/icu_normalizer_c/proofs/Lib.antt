mod BufferLemmas
mod FormLemmas
mod OverwritingLemmas
