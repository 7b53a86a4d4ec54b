-- The form that a normalizer makes, and the reading by which it makes it.
use Rattle.std.specs.Prelude.{ℕ, Bool, List, []}
use Rattle.normal_forms.specs.Forms.{normal_form}
use Rattle.normal_forms.specs.Reading.{Reading}
use Rattle.normal_forms.specs.ShortRuns.{HasShortRuns}
use Rattle.normal_forms.specs.declared.Form.{Form}
use Rattle.normal_forms.specs.declared.Form.TheVariants.{Decomposing, Composing}
use Rattle.normalizer_tables.specs.Characters.{Characters, has_class_form}
use Rattle.normalizer_tables.specs.Pairs.{Pair}
use Rattle.normalizer_tables.specs.Readings.{reading_by}
use Rattle.normalizer_tables.specs.declared.characters.IgnoredCharacters.TheVariants.{Dropped}
use Rattle.normalizer_text.specs.Encodings.{Encoding, decoded_in}
use Rattle.normalizer_calls.specs.declared.borrowed.NormalizerBorrowed.{NormalizerBorrowed}
use Rattle.normalizer_calls.specs.declared.composing_form.ComposingForm.{ComposingForm}
use Rattle.normalizer_calls.specs.declared.decomposing_form.DecomposingForm.{DecomposingForm}

-- a form, the reading by which it is made, and the characters that continue what comes before them (see `ShortRuns`)
pub record MadeForm : Type 0 where
  pub has_class_form : ℕ → Bool
  pub reading : Reading
  pub form : Form

-- the form of a text
abbrev pub form_of : MadeForm → List ℕ → List ℕ
form_of m x = normal_form m.reading m.form x

-- the form of what units decode to
abbrev pub form_in : MadeForm → Encoding → List ℕ → List ℕ
form_in m e units = form_of m (decoded_in e units)

-- the text that units decode to has short runs
abbrev pub HasShortUnits : MadeForm → Encoding → List ℕ → Type 0
HasShortUnits m e units = HasShortRuns m.has_class_form m.reading (decoded_in e units)

-- a form using data and pairs
abbrev pub form_by : Characters → List Pair → Form → MadeForm
form_by s pairs form = record { has_class_form = has_class_form s; reading = reading_by s Dropped pairs; form = form }

-- the decomposing form using its data
abbrev pub decomposing_by : DecomposingForm → MadeForm
decomposing_by f = form_by f.characters [] Decomposing

-- the composing form using its data and pairs
abbrev pub composing_by : ComposingForm → MadeForm
composing_by f = form_by f.characters f.pairs.now Composing

-- the form of a decomposing normalizer
abbrev pub decomposed_by : NormalizerBorrowed DecomposingForm → MadeForm
decomposed_by n = decomposing_by n.form

-- the form of a composing normalizer
abbrev pub composed_by : NormalizerBorrowed ComposingForm → MadeForm
composed_by n = composing_by n.form
