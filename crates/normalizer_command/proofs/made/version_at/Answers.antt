use Rattle.std.proofs.Common.{inl, inr, refl}
use Rattle.normalizer_command.specs.Made.{version_of}
use Rattle.normalizer_command.proofs.made.version_at.Goals as goal

pub returns-in_ok-text_of_file-in-Some-clause-text : goal.returns-in_ok-text_of_file-in-Some-clause-text
returns-in_ok-text_of_file-in-Some-clause-text g c =
    let read = rw c.deref.ensures.value at c.in_ok-text_of_file-in-Some.ensures.text in
    let at = rw c.in-Some.is at c.in_ok-prepared.ensures.bytes in (read.0.version, inl (c.in-Some.prepared.items, read.0, at, read.1, refl), read.2)

pub returns-in_ok-text_of_directory-in-None-clause-text : goal.returns-in_ok-text_of_directory-in-None-clause-text
returns-in_ok-text_of_directory-in-None-clause-text g c =
    let read = c.in_ok-text_of_directory-in-None.ensures.text in
    let at = rw c.in-None.is at c.in_ok-prepared.ensures.bytes in (version_of read.0, inr (at, (read.0, read.1, refl)), read.2)
