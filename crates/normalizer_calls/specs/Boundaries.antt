-- Which characters a normalizer takes for the beginning of a part of a text.
use Rattle.std.specs.Prelude.{ℕ, Bool, not}
use Rattle.normalizer_tables.specs.Characters.{has_class_form}
use Rattle.normalizer_tables.specs.conditions.PairConditions.{is_taken_as_boundary}
use Rattle.normalizer_calls.specs.declared.borrowed.NormalizerBorrowed.{NormalizerBorrowed}
use Rattle.normalizer_calls.specs.declared.composing_form.ComposingForm.{ComposingForm}
use Rattle.normalizer_calls.specs.declared.decomposing_form.DecomposingForm.{DecomposingForm}
use Rattle.normalizer_calls.specs.BorrowedData.{composing_data_of_borrowed, data_of_borrowed}

-- the word of c has no class form: its list begins with a starter
abbrev pub has_decomposing_boundary : NormalizerBorrowed DecomposingForm → ℕ → Bool
has_decomposing_boundary n c = not (has_class_form (data_of_borrowed n) c)

-- the word of c isn't flagged as backward combining, or c is below the bound: its list begins with a starter that is
-- second in no pair
abbrev pub has_composing_boundary : NormalizerBorrowed ComposingForm → ℕ → Bool
has_composing_boundary n c = is_taken_as_boundary (composing_data_of_borrowed n) n.form.bounds c
