-- What is left of a segment that is buffered.
use Rattle.std.specs.Prelude.{◌≡◌, ℕ, suc, List, false, Some, slice_get, take}
use Rattle.normal_forms.specs.Reading.{Reading}
use Rattle.normal_forms.specs.declared.Form.{Form}
use Rattle.normal_forms.specs.declared.Form.TheVariants.{Decomposing, Composing}
use Rattle.normal_forms.specs.CompositionByStarters.{compose_by_starters}
use Rattle.normalizer_tables.specs.Pairs.{Pair, may_be_second}
use Rattle.normalizer_text.specs.Encodings.{Encoding}
use Rattle.normalizer_iterators.specs.declared.segment.SegmentBuffer.{SegmentBuffer}
use Rattle.normalizer_iterators.specs.Segment.{characters_left, Agrees}
use Rattle.normalizer_calls.specs.Forms.{MadeForm, form_in}

-- the form of a text that is in canonical order
unfoldable pub form_of_ordered : Reading → Form → List ℕ → List ℕ
form_of_ordered d Decomposing x = x
form_of_ordered d Composing x = compose_by_starters d x

-- the form of what is left
abbrev pub form_left : MadeForm → SegmentBuffer → List ℕ
form_left m b = form_of_ordered m.reading m.form (characters_left b)

-- the form of the units up to a place is left
pub record HoldsForm (m : MadeForm) (e : Encoding) (units : List ℕ) (end : ℕ) (b : SegmentBuffer) : Type 0 where
  pub agrees : Agrees m.reading b
  pub form : form_left m b ≡ form_in m e (take end units)

-- no member of x after the first is the second of a pair
abbrev pub HasNoSecond : List Pair → List ℕ → Type 0
HasNoSecond pairs x = (i c : ℕ) → slice_get x (suc i) ≡ Some c → may_be_second pairs c ≡ false
