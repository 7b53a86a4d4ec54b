-- The data and the pairs that normalizers borrow.
use Rattle.std.specs.Prelude.{List}
use Rattle.normalizer_tables.specs.Characters.{Characters}
use Rattle.normalizer_tables.specs.Pairs.{Pair}
use Rattle.normalizer_calls.specs.declared.borrowed.NormalizerBorrowed.{NormalizerBorrowed}
use Rattle.normalizer_calls.specs.declared.composing_form.ComposingForm.{ComposingForm}
use Rattle.normalizer_calls.specs.declared.decomposing_form.DecomposingForm.{DecomposingForm}

-- the data that a decomposing normalizer borrows
abbrev pub data_of_borrowed : NormalizerBorrowed DecomposingForm → Characters
data_of_borrowed n = n.form.characters

-- the data that a composing normalizer borrows
abbrev pub composing_data_of_borrowed : NormalizerBorrowed ComposingForm → Characters
composing_data_of_borrowed n = n.form.characters

-- the pairs that it borrows
abbrev pub pairs_of_borrowed : NormalizerBorrowed ComposingForm → List Pair
pairs_of_borrowed n = n.form.pairs.now
