-- Normalizers to any form.
use Rattle.std.specs.Prelude.{ℕ, Bool, []}
use Rattle.normal_forms.specs.Reading.{Reading}
use Rattle.normal_forms.specs.declared.Form.{Form}
use Rattle.normal_forms.specs.declared.Form.TheVariants.{Decomposing, Composing}
use Rattle.normalizer_calls.specs.Boundaries.{has_composing_boundary, has_decomposing_boundary}
use Rattle.icu_normalizer.specs.ComposingNormalizers.{composing_data_of, pairs_of}
use Rattle.normalizer_calls.specs.Forms.{MadeForm, composed_by, decomposed_by, form_by}
use Rattle.icu_normalizer.specs.Normalizers.{data_of}
use Rattle.icu_normalizer.specs.declared.any_normalizer.AnyNormalizer.{AnyNormalizer}
use Rattle.icu_normalizer.specs.declared.any_normalizer.AnyNormalizer.TheVariants as owned
use Rattle.icu_normalizer.specs.declared.any_normalizer.AnyNormalizerBorrowed.{AnyNormalizerBorrowed}
use Rattle.icu_normalizer.specs.declared.any_normalizer.AnyNormalizerBorrowed.TheVariants as borrowed

-- the form that a normalizer makes, the reading by which it makes it, and the characters that continue what comes
-- before them
abbrev pub made_by : AnyNormalizer → MadeForm
made_by (owned.Decomposing n) = form_by (data_of n) [] Decomposing
made_by (owned.Composing n) = form_by (composing_data_of n) (pairs_of n) Composing

-- the same over borrowed data
abbrev pub made_by_borrowed : AnyNormalizerBorrowed → MadeForm
made_by_borrowed (borrowed.Decomposing n) = decomposed_by n
made_by_borrowed (borrowed.Composing n) = composed_by n

-- the form that a normalizer makes
abbrev pub kind_by : AnyNormalizer → Form
kind_by n = (made_by n).form

-- the reading by which it makes its form
abbrev pub reading_of : AnyNormalizer → Reading
reading_of n = (made_by n).reading

-- a text may be divided before the character, as the words of a normalizer say
abbrev pub has_boundary : AnyNormalizerBorrowed → ℕ → Bool
has_boundary (borrowed.Decomposing n) c = has_decomposing_boundary n c
has_boundary (borrowed.Composing n) c = has_composing_boundary n c
